mod KeeperCalls
